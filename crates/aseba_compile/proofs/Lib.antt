pub mod Codes
pub mod OnlyTree
pub mod Refusals
pub mod Whens
