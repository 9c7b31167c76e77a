pub mod Bytewise
pub mod Parts
pub mod Outcomes
