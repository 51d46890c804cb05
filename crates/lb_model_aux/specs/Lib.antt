pub mod Checkpoints
pub mod Forms
pub mod Grammar
pub mod Groups
pub mod ReadBack
pub mod Reading
pub mod Worked
