pub mod Ranges
pub mod Sets
pub mod Faults
pub mod Laws
