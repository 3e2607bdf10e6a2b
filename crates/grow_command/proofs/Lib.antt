pub mod CountLemmas
pub mod ComesLemmas
pub mod OnceLemmas
