pub mod FaultLemmas
pub mod RangesLemmas
pub mod Windows
pub mod SameSet
pub mod TestSets
