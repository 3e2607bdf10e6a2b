-- What public contracts rest on.
pub mod Bound
pub mod Cycle
pub mod Elimination
pub mod Kept
pub mod Raising
pub mod Table
pub mod Values
pub mod Verdict
pub mod Choices
pub mod Outcomes
pub mod Steps
-- What functions inside promise each other.
pub mod Gather
pub mod Given
pub mod Branches
pub mod Floors
pub mod Lifting
pub mod Parts
pub mod Progress
pub mod Renaming
pub mod Words
