pub mod Search
pub mod Accepts
