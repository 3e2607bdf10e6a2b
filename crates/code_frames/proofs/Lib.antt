pub mod Going
pub mod Counting
pub mod Framing
pub mod Arms
pub mod Weighing
