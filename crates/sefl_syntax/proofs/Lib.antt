pub mod Filling
pub mod Levels
pub mod SetLemmas
