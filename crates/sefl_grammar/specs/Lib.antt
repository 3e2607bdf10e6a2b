-- What public contracts rest on.
pub mod Grammar
pub mod Word
pub mod Words
-- What functions inside promise each other.
pub mod Automaton
pub mod Table
