-- What public contracts rest on.
pub mod Parts
pub mod Stops
pub mod Counts
pub mod Confirming
pub mod Supplies
-- What functions inside promise each other.
pub mod Trails
pub mod Checks
