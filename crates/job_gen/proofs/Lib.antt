pub mod Numbers
pub mod Within
pub mod Known
pub mod Parts
pub mod BoxNames
