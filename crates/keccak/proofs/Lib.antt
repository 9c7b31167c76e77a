pub mod Outcomes
pub mod Rounds
pub mod Rows
pub mod States
