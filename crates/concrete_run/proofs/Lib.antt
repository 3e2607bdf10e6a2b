pub mod Alike
pub mod Moving
pub mod Working
pub mod Searching
pub mod Beginning
