pub mod Answered
pub mod Checking
pub mod Coding
pub mod Compiled
pub mod Reading
pub mod Refused
