pub mod Refusals
pub mod Comes
pub mod Each
