-- What public contracts rest on.
pub mod Alike
-- What functions inside promise each other.
pub mod SameTests
