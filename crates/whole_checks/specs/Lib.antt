-- What public contracts rest on.
pub mod Chains
pub mod Confirming
pub mod Walks
-- What functions inside promise each other.
pub mod Settling
