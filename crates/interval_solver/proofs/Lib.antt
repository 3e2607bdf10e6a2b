pub mod Places
pub mod Firsts
pub mod Meeting
pub mod Deciding
