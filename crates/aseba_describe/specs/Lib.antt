pub mod NativeLines
pub mod Spelling
pub mod Plain
pub mod Defaults
pub mod Grammar
pub mod Kinds
pub mod Known
pub mod Reading
