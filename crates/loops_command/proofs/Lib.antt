pub mod FoundLemmas
pub mod Uncut
pub mod OnceLemmas
pub mod Endless
