pub mod Comments
pub mod Found
pub mod Lexed
pub mod Numbers
