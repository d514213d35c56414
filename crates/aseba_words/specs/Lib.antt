pub mod Bytes
pub mod Cell
pub mod Codes
pub mod Names
pub mod Natives
pub mod Spelled
pub mod formers
