pub mod Domains
pub mod Numbered
pub mod Verdicts
