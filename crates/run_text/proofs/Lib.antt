pub mod Lines
pub mod ReadBack
pub mod Steps
pub mod Dropped
