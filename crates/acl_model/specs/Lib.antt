pub mod Fields
pub mod Contents
pub mod Rules
pub mod Nodes
