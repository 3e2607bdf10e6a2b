-- What public contracts rest on.
pub mod Leaving
pub mod Tables
pub mod Outcomes
pub mod Passing
pub mod Rows
pub mod Elements
pub mod Filters
pub mod Hidden
pub mod Boxes
-- What functions inside promise each other.
pub mod Reads
