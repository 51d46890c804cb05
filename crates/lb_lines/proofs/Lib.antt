pub mod Apart
pub mod Gluing
pub mod Joins
pub mod Penalties
pub mod Refusals
pub mod Stays
pub mod Takes
