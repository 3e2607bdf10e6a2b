pub mod Outcomes
pub mod PlaceLemmas
