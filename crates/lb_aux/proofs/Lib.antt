pub mod Appends
pub mod Counters
pub mod Digits
pub mod GroupSteps
pub mod LineCuts
pub mod Sayings
