pub mod Models
pub mod ClickModels
