pub mod Clauses
pub mod ReadingLaws
pub mod RowsLaws
pub mod CollectLaws
