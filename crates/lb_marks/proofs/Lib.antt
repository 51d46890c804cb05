pub mod Boxes
pub mod Characters
pub mod MarkLists
pub mod Pages
pub mod Standing
