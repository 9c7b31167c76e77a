pub mod Lanes
pub mod Steps
pub mod Tables
pub mod Rounds
