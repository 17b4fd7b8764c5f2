pub mod Behind
pub mod Parts
