pub mod Units
pub mod Limits
pub mod Rounds
pub mod Calls
