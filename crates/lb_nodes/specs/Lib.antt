pub mod Bounds
pub mod Laws
pub mod Nesting
pub mod Packing
pub mod Setting
pub mod Totals
