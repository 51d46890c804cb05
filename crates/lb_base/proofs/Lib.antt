pub mod BadnessOrder
pub mod DecimalReading
pub mod FractionWriting
pub mod ReadingBack
pub mod TextBack
