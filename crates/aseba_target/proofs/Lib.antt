pub mod BeatLaws
pub mod Nodes
pub mod Rows
pub mod Started
