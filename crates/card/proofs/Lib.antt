pub mod CardText
pub mod FoundText
pub mod GroupText
pub mod LineLaws
pub mod Size
pub mod TextLaws
