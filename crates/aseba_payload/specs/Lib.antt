pub mod Layout
pub mod Rows
pub mod Decoding
pub mod Reading
pub mod Writing
pub mod Meaning
