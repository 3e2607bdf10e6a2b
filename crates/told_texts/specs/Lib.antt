pub mod Ranges
pub mod Compared
pub mod Loops
pub mod Walks
