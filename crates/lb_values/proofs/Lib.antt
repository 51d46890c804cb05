pub mod SameCells
pub mod KeptLemmas
