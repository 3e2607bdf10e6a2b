pub mod Statements
pub mod Lines
pub mod Excerpts
pub mod Numbers
