pub mod Files
pub mod Puts
