pub mod Parts
pub mod Rows
pub mod Texts
pub mod Stacks
pub mod Layers
