pub mod TokenLemmas
pub mod NamedStages
pub mod NameLemmas
