-- What public contracts rest on.
pub mod Formulas
pub mod View
pub mod Terms
pub mod Atoms
pub mod Kinds
pub mod Solutions
pub mod Typed
pub mod TypeTests
pub mod Bounds
pub mod Pairs
pub mod Cases
pub mod Splits
pub mod CaseCounts
pub mod Members
-- What functions inside promise each other.
pub mod Summaries
