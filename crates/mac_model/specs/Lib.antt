pub mod MacTables
pub mod Nodes
pub mod Laws
