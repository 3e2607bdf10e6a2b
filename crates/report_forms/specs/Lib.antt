-- What public contracts rest on.
pub mod Seen
pub mod Fits
pub mod Ranges
pub mod Spelled
-- What functions inside promise each other.
pub mod Below
