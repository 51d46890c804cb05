pub mod Cut
pub mod Loaded
pub mod Steps
pub mod Texts
