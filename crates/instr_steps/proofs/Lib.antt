pub mod LineSteps
pub mod Metadata
