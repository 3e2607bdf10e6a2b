pub mod ToldLemmas
pub mod RunLemmas
pub mod ProgramLemmas
pub mod CaseLemmas
pub mod OwnLemmas
pub mod WalkLemmas
