-- What public contracts rest on.
pub mod Cycles
pub mod Seen
pub mod Longer
pub mod Trees
pub mod Accepted
pub mod Least
pub mod Decisions
-- What functions inside promise each other.
pub mod Agenda
