pub mod Bounds
pub mod Files
pub mod Fonts
pub mod Lengths
pub mod Drawables
pub mod Drawings
pub mod Progresses
