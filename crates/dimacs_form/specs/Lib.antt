pub mod Places
pub mod Walk
pub mod Numbers
pub mod Form
