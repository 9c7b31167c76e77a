pub mod Encodings
pub mod Functions
pub mod Refusals
pub mod Answers
