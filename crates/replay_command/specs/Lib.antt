pub mod Counted
pub mod Replays
pub mod Wholes
