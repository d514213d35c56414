pub mod Driven
pub mod Grammar
pub mod Reading
pub mod Reported
pub mod Spelled
pub mod Unwritten
