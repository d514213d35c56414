pub mod Field
pub mod Said
pub mod DumpText
pub mod Adding
pub mod Samples
