pub mod Entries
pub mod Marks
pub mod OneSlot
pub mod Saved
pub mod Tabled
