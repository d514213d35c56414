pub mod Call
pub mod Operation
