pub mod Lines
pub mod Back
pub mod Counts
pub mod Replies
pub mod Comparisons
pub mod Found
pub mod Walks
pub mod Whole
