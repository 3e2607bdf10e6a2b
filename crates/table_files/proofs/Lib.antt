pub mod Faults
pub mod Nodes
pub mod Ordered
pub mod ChainLemmas
