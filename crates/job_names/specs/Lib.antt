-- What public contracts rest on.
pub mod Names
pub mod Occurrences
pub mod Tables
-- What functions inside promise each other.
pub mod Lent
pub mod Noted
pub mod Surveyed
