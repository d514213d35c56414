pub mod BreakLaws
pub mod Rows
