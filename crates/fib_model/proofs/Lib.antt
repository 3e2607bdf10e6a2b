pub mod Steps
pub mod Nesting
pub mod Spans
pub mod FibLemmas
pub mod LeastLemmas
pub mod NodeLemmas
pub mod FileLemmas
