pub mod Events
pub mod Texts
pub mod Grammar
pub mod Reading
pub mod Playing
pub mod Samples
