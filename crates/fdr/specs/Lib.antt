pub mod Change
pub mod Post
