pub mod Notes
pub mod StepLaws
pub mod Applied
pub mod ByRows
pub mod Calls
