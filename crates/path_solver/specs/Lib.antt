-- What public contracts rest on.
pub mod Bases
pub mod Decisions
pub mod Judged
-- What functions inside promise each other.
pub mod Bounds
pub mod Laws
pub mod Origins
pub mod Problems
pub mod Singles
pub mod Solutions
pub mod Unknowns
pub mod Unmet
pub mod Values
