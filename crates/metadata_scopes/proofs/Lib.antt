pub mod AscendingLemmas
pub mod KeyLemmas
pub mod ListingLemmas
pub mod SeenLemmas
pub mod SnapshotLemmas
pub mod ValuedLemmas
