pub mod Apart
pub mod Pairs
pub mod Named
pub mod Order
pub mod Placed
pub mod Places
pub mod Search
