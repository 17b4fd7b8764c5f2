pub mod Flags
pub mod Post
