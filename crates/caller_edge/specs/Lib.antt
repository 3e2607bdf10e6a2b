pub mod Lists
pub mod Outside
