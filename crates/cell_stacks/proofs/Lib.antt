pub mod StackLemmas
pub mod CellLemmas
pub mod ValuedLemmas
pub mod OrderLemmas
pub mod ListingLemmas
