pub mod TermValues
pub mod Fits
