pub mod Lists
pub mod BothLists
pub mod Texts
pub mod VerdictTexts
pub mod Commands
