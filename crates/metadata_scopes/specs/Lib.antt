pub mod Scopes
pub mod Snapshot
