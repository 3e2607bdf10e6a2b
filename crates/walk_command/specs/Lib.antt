pub mod WalkTexts
pub mod Walks
pub mod Lines
