pub mod Tests
pub mod Rows
pub mod Numbers
pub mod Outcomes
