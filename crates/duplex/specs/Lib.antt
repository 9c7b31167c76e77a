pub mod Duplex
pub mod Strings
pub mod Object
