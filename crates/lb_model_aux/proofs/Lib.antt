pub mod Closings
pub mod GroupGrammar
pub mod GroupReading
pub mod LineReading
pub mod Numerals
pub mod WrittenLines
