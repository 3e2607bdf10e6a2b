pub mod Forms
pub mod Numbers
pub mod Commands
pub mod Apps
pub mod Shapes
