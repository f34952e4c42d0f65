pub mod Places
pub mod Sounds
mod Sheets
