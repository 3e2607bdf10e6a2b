-- What public contracts rest on.
pub mod Forms
pub mod Shape
pub mod Numbers
pub mod Reduced
pub mod Faults
pub mod Reads
-- What functions inside promise each other.
pub mod Held
