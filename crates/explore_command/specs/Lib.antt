-- What public contracts rest on.
pub mod Explores
pub mod Headline
pub mod Laws
-- What functions inside promise each other.
pub mod Putting
