pub mod Cuts
pub mod Standing
pub mod Pieces
pub mod OneCut
pub mod Begun
pub mod Streams
