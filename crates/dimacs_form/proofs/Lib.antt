pub mod PlaceLaws
pub mod NumberLaws
pub mod Walk
pub mod FormLaws
