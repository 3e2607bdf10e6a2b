pub mod Classes
pub mod Patterns
pub mod Codes
pub mod Nodes
