pub mod Laws
pub mod Lookups
pub mod Places
pub mod Tables
pub mod Network
pub mod Sound
pub mod Keeping
pub mod Acceptance
