pub mod ComesLemmas
pub mod OnceLemmas
pub mod ClickRefusals
