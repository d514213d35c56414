pub mod Agrees
pub mod CodeRuns
pub mod Generated
pub mod OwnDepth
pub mod Places
pub mod PlacesByText
pub mod Words
pub mod WorkedCode
