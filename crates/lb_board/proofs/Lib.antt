pub mod Draws
pub mod Joins
pub mod Marks
pub mod Parts
pub mod Sums
