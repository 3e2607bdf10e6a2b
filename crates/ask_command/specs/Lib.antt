pub mod Answering
pub mod Asks
pub mod Texts
pub mod Beyond
