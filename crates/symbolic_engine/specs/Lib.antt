-- What public contracts rest on.
pub mod Origins
pub mod Stages
pub mod Leading
pub mod Seeing
pub mod Finds
pub mod Ends
pub mod Recorded
pub mod Exploring
-- What functions inside promise each other.
pub mod Turning
pub mod Finding
