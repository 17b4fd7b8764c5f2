pub mod Literal
pub mod Mark
