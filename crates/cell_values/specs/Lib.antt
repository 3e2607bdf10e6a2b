pub mod Scenes
pub mod Hops
