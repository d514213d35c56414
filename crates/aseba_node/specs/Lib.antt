pub mod CanSay
pub mod Delivered
pub mod NodeState
pub mod Saying
pub mod Session
pub mod Told
pub mod Turns
pub mod Worked
