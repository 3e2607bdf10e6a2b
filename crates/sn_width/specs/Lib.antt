pub mod Width
pub mod Rel
pub mod Faults
pub mod Address
