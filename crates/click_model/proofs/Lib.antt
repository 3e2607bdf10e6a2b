pub mod Pieces
pub mod NameLemmas
pub mod LeadLemmas
pub mod ConfigLemmas
pub mod OrderLemmas
pub mod UseLemmas
