pub mod StartEntries
pub mod StateCells
