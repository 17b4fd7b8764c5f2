pub mod Clauses
pub mod Reading
pub mod Rows
pub mod Collected
