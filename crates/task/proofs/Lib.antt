pub mod Questions
pub mod Blocks
pub mod BlockSizes
