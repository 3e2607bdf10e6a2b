pub mod Comments
pub mod Fronts
pub mod Tokens
pub mod Numbers
pub mod Stages
pub mod Items
pub mod Arguments
