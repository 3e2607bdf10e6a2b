pub mod ListLemmas
pub mod RecordLemmas
