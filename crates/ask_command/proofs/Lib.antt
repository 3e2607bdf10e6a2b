mod AnswerLemmas
pub mod OnceLemmas
pub mod Further
pub mod OneAnswer
