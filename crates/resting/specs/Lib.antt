pub mod Sides
pub mod Orders
pub mod Sheets
