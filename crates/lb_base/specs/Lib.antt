pub mod Answers
pub mod Badness
pub mod Decimals
pub mod Kinds
