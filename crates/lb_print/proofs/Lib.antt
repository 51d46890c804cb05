pub mod Numerals
pub mod Smallest
