pub mod Joined
pub mod Outcomes
