pub mod Spelled
pub mod Links
pub mod FirstLine
pub mod Decoded
