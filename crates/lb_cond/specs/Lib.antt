pub mod Open
pub mod Stops
