pub mod Tokens
pub mod Plain
pub mod Names
pub mod Held
pub mod Forms
