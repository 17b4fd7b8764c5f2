pub mod Rows
pub mod Order
pub mod Search
pub mod Place
