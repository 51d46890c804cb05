pub mod Commands
pub mod Names
pub mod Parameters
pub mod Refusals
