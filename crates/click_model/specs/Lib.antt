pub mod Arguments
pub mod Patterns
pub mod Classes
pub mod Faults
pub mod Declarations
pub mod Connections
pub mod Configs
pub mod Nets
