pub mod Loads
pub mod Shelves
