-- What public contracts rest on.
pub mod AtomRules
pub mod Atoms
pub mod Gathered
pub mod Items
pub mod Nodes
pub mod Refusals
pub mod Rules
pub mod Tags
-- What functions inside promise each other.
pub mod LentTags
pub mod LentNodes
pub mod Places
pub mod Progress
pub mod Totals
