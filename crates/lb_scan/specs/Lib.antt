pub mod Words
pub mod Numbers
pub mod Lengths
pub mod Stages
pub mod Scanning
