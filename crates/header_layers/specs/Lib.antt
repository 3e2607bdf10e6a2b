pub mod Layout
pub mod Spaced
pub mod Valued
