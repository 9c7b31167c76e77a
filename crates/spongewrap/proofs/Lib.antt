pub mod Passed
pub mod Settle
pub mod Theorems
pub mod Outcomes
pub mod Histories
pub mod ComesBack
