pub mod Following
pub mod Cases
