pub mod MacLemmas
pub mod RowLemmas
pub mod SetLemmas
pub mod NodeLemmas
pub mod FileLemmas
