pub mod Written
pub mod Back
pub mod Parts
pub mod Fitting
pub mod Found
pub mod Lists
pub mod Places
pub mod Ways
