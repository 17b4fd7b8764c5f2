pub mod WordLaws
pub mod SizeLaws
pub mod PartLaws
pub mod InitialLaws
pub mod ImageLaws
