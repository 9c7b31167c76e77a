pub mod Table
pub mod Bytes
pub mod Pieces
pub mod Padding
pub mod Sponge
pub mod Hashes
pub mod Pad
