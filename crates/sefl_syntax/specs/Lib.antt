-- What public contracts rest on.
pub mod CodeText
pub mod Filled
pub mod JobText
pub mod Name
pub mod RangeLists
pub mod NetText
pub mod NetWords
pub mod Text
pub mod TermText
pub mod Trees
pub mod Views
pub mod Widths
-- What functions inside promise each other.
pub mod Clipped
