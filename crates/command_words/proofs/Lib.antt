pub mod ReadSteps
pub mod ReadLaw
pub mod FormRules
pub mod TakenLaw
pub mod Names
pub mod CommandLemmas
