pub mod Quotients
pub mod Each
pub mod Products
pub mod Places
pub mod Arrays
pub mod ZeroDivisors
pub mod Rows
pub mod Alike
