pub mod Bounds
pub mod Chapters
pub mod Journals
pub mod PlainNames
