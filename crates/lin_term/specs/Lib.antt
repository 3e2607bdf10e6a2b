pub mod Terms
pub mod Parts
pub mod Sums
pub mod Reduced
