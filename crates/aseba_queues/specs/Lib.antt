pub mod Holds
pub mod Joined
pub mod Knows
pub mod Merges
pub mod Passes
pub mod Views
