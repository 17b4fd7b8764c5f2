pub mod Writing
pub mod Directory
