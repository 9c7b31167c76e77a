pub mod States
pub mod Sessions
pub mod Bundles
