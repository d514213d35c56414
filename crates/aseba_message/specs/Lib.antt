pub mod Frames
pub mod Message
pub mod Reader
pub mod Cut
