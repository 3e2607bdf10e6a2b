pub mod Answers
pub mod Longer
pub mod Passages
pub mod Records
pub mod Same
pub mod Starts
