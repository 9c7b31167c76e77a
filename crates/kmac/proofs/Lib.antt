pub mod Encoding
pub mod Settle
pub mod Theorems
pub mod Outcomes
