-- What public contracts rest on.
pub mod Halves
pub mod Joining
pub mod Rows
pub mod Saying
-- What functions inside promise each other.
pub mod Adding
pub mod Apart
pub mod Clashing
pub mod Delivering
pub mod Facings
pub mod Layouts
pub mod Matching
pub mod Needing
pub mod Weighing
