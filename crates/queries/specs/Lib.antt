-- What public contracts rest on.
pub mod Answers
pub mod Holding
-- What functions inside promise each other.
pub mod Judged
pub mod Paths
