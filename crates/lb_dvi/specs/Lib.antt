pub mod Files
pub mod Fonts
pub mod Pens
