pub mod Shown
pub mod Sums
pub mod Counting
pub mod Verdicts
pub mod LineSums
pub mod Measures
pub mod Singles
