pub mod OnceLemmas
pub mod LoadLemmas
pub mod InputLemmas
pub mod FillLemmas
pub mod ReadLemmas
pub mod OpenLemmas
