pub mod Ascending
pub mod Counting
pub mod Indexing
pub mod Searching
pub mod Sets
pub mod Surveys
