pub mod Same
pub mod Outcomes
