pub mod Registered
pub mod Worked
