pub mod LogLines
pub mod Written
