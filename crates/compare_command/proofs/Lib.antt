pub mod Wholes
pub mod Once
pub mod Beyond
