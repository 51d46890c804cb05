pub mod FontBytes
pub mod FontSpecs
pub mod MadeFonts
pub mod TestFont
