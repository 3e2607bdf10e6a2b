pub mod ComesLemmas
pub mod OnceLemmas
pub mod WholeLemmas
pub mod WholeOnce
