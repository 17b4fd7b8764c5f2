pub mod Reads
pub mod Walk
pub mod Post
pub mod Rows
