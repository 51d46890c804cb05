pub mod Categories
pub mod CellTexts
pub mod Cells
pub mod Kept
pub mod Registers
