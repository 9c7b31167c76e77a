pub mod Examples
pub mod Inputs
pub mod Values
pub mod Duds
