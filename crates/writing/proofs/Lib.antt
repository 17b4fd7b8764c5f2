pub mod Writes
pub mod ByteWords
pub mod Ranges
pub mod Target
pub mod DirectoryLaws
