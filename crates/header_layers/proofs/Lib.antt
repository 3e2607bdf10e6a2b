pub mod SpacedLemmas
pub mod LayoutLemmas
