pub mod BoundLemmas
pub mod CutLemmas
pub mod HeadlineLemmas
pub mod OnceLemmas
pub mod PutLemmas
pub mod SoFarLemmas
pub mod ToldLemmas
pub mod VerdictLemmas
