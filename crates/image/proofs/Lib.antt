pub mod Bounds
pub mod Image
pub mod Calls
pub mod Outcomes
pub mod Held
pub mod Runs
