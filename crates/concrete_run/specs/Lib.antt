pub mod Pending
pub mod Starting
pub mod Answers
