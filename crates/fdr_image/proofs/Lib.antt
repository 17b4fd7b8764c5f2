pub mod Pairs
pub mod Below
pub mod DomainLaws
pub mod RowLaws
pub mod Counting
pub mod Ranks
pub mod Reading
pub mod PairChains
