pub mod Mutex
pub mod Join
pub mod None
pub mod Cover
pub mod Domains
