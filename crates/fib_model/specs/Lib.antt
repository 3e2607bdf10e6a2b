pub mod Prefixes
pub mod Sweeps
pub mod Fibs
pub mod Nodes
pub mod Laws
