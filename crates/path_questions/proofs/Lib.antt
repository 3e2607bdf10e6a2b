mod Commuting
pub mod Growing
mod Lists
mod Typing
mod Right
mod AllLemmas
mod AskLemmas
mod DecisionLemmas
mod FieldLemmas
mod Going
mod IdLemmas
mod StateLemmas
