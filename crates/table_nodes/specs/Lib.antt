pub mod Exits
pub mod Fields
pub mod TableNodes
pub mod Codes
pub mod Laws
