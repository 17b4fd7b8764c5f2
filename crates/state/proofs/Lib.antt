pub mod Asked
pub mod Flags
pub mod Calls
