-- What the outside tells, and words for its answers.
pub mod Told
pub mod Loaded
pub mod Put
pub mod Putting
pub mod Pieces
pub mod Found
pub mod MemFolder
pub mod MemSink
pub mod MemPatterns
pub mod DirFolder
pub mod OutSink
pub mod Output
