-- What public contracts rest on.
pub mod Loops
pub mod Texts
pub mod Endless
-- What functions inside promise each other.
pub mod Seen
