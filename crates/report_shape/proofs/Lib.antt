pub mod Views
pub mod LargeLemmas
