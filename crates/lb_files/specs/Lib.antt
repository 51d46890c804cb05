pub mod Cut
pub mod Events
pub mod Forms
pub mod Steps
pub mod Stops
pub mod Texts
