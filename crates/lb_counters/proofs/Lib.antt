pub mod Composed
pub mod InGroups
pub mod Printers
