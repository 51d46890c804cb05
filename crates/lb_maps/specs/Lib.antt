pub mod CellMap
pub mod Marked
pub mod Slots
