-- What public contracts rest on.
pub mod Records
pub mod Exact
pub mod Work
pub mod Packets
pub mod Shapes
pub mod Points
pub mod Laws
pub mod Whole
pub mod View
-- What functions inside promise each other.
pub mod Below
