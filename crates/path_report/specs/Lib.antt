pub mod Having
pub mod Reading
pub mod Printed
pub mod Lasting
