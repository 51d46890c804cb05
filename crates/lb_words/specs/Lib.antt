pub mod Doubled
pub mod Rest
pub mod Standing
pub mod Turns
