pub mod Counters
pub mod Effects
pub mod Labels
pub mod Laws
pub mod Worked
