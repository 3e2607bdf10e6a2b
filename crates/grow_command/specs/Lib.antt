pub mod Counted
pub mod Summary
pub mod Grows
