pub mod OneNest
pub mod Parsed
pub mod Reading
pub mod Reads
