pub mod Build
pub mod Post
