pub mod Checkpoints
pub mod Names
pub mod Parts
pub mod Runs
pub mod Statuses
pub mod Words
pub mod Writes
