pub mod Parts
pub mod Buffers
pub mod PartRows
pub mod Insertion
pub mod Extended
pub mod Pending
