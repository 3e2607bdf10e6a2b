-- What public contracts rest on.
pub mod Symbolic
pub mod Beginning
