pub mod Searching
pub mod Prefix
pub mod Checking
pub mod Accepting
pub mod Written
