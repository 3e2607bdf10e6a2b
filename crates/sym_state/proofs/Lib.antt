pub mod Keeping
pub mod Typing
pub mod Changing
pub mod Starting
pub mod Begins
pub mod Holding
