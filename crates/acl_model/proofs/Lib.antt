pub mod Addresses
pub mod Tests
pub mod Reading
