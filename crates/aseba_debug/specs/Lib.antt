pub mod Breaks
pub mod Commanded
pub mod Worked
