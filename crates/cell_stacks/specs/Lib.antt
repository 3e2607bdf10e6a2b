pub mod Cells
pub mod Outcome
pub mod Stacks
pub mod Valued
