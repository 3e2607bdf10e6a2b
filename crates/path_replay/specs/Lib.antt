pub mod Stopping
pub mod Replaying
