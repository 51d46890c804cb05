pub mod BareLemmas
pub mod PatternLemmas
pub mod ReadingLemmas
pub mod TurnLemmas
pub mod WindowLemmas
