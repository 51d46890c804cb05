pub mod Turns
pub mod Fits
pub mod Further
