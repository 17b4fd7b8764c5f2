pub mod Digits
pub mod Lines
pub mod Listing
pub mod Size
