pub mod ProgramFont
pub mod Refusals
pub mod Wholes
