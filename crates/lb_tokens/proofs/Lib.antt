pub mod Characters
pub mod FirstLine
pub mod LineEnds
pub mod Readings
pub mod Words
pub mod Stops
pub mod TextLemmas
pub mod LayerLemmas
