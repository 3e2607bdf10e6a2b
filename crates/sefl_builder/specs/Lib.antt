pub mod Reading
pub mod Leaves
pub mod Terms
pub mod Conditions
pub mod Instructions
pub mod Nets
pub mod Pieces
pub mod Spelled
