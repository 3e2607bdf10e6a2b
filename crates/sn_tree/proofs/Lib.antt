pub mod Around
pub mod Ascending
pub mod Owned
pub mod Rotations
