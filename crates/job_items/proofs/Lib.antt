pub mod Coding
pub mod Counting
pub mod LentLemmas
pub mod Levels
pub mod NodeLemmas
pub mod Outcomes
pub mod Texts
