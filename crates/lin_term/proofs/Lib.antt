pub mod Modular
pub mod Coefficients
pub mod Values
pub mod Merging
pub mod Combining
pub mod ReducedTests
