pub mod Casts
pub mod Cursors
pub mod Glues
pub mod WordLaws
pub mod WordLetters
