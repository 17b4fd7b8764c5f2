pub mod Lookups
pub mod Joining
pub mod DomainLaws
pub mod Omitting
pub mod Covering
