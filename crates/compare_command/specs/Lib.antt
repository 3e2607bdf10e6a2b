pub mod Texts
pub mod Compares
pub mod Beyond
