pub mod DviParts
