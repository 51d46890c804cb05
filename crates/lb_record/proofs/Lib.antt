pub mod Fresh
pub mod Kepts
pub mod Noted
pub mod Overlaid
pub mod Placed
pub mod Recordings
