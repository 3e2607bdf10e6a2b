-- What public contracts rest on.
pub mod Answers
pub mod Formulas
pub mod Laws
pub mod Placing
pub mod Questions
pub mod Sentences
pub mod Telling
pub mod Asked
pub mod Deciding
pub mod Known
-- What functions inside promise each other.
pub mod Below
