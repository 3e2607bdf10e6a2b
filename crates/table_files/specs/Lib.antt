pub mod FileNodes
pub mod ChainTexts
