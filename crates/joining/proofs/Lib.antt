pub mod ShiftLaws
pub mod PartLaws
pub mod Calls
