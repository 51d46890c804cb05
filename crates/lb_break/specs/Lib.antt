pub mod Points
pub mod Progress
