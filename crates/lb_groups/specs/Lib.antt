pub mod Changes
pub mod Open
