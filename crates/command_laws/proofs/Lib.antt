pub mod Confirmed
pub mod AllCases
pub mod Alike
pub mod Followed
pub mod Whole
