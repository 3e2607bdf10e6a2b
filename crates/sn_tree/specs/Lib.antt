pub mod Ends
pub mod Members
pub mod Nodes
pub mod Pairs
