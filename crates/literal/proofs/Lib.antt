pub mod Ascends
pub mod LastBit
pub mod Mark
pub mod Sign
pub mod State
pub mod Truth
pub mod Bits
