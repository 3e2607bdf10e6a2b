-- What public contracts rest on.
pub mod Finding
-- What functions inside promise each other.
pub mod Telling
pub mod Lists
pub mod Lasting
pub mod Seen
