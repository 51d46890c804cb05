pub mod Boxes
pub mod Fonts
pub mod Groups
pub mod Items
pub mod Pages
pub mod Paragraphs
pub mod Wholes
pub mod Words
