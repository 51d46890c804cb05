pub mod Walks
pub mod WordLemmas
pub mod UnitLemmas
pub mod FractionLemmas
pub mod StageLemmas
pub mod OpenLemmas
pub mod StandsLemmas
