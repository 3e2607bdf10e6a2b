pub mod Halves
pub mod Ports
pub mod Placing
pub mod Found
