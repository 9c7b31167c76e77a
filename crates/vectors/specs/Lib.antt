pub mod Bounds
pub mod Spelled
pub mod FirstLine
pub mod Chains
