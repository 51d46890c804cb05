pub mod Copies
pub mod Recorded
pub mod Recording
