pub mod Rules
pub mod Seats
pub mod Steps
pub mod Totals
pub mod Views
