pub mod Stops
pub mod Sides
pub mod Starting
pub mod Telling
