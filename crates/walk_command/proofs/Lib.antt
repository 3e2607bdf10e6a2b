pub mod Lending
pub mod ComesLemmas
pub mod OnceLemmas
pub mod LineLemmas
