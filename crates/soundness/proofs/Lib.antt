pub mod Lists
pub mod Trades
pub mod Moves
pub mod Keeps
pub mod Hands
pub mod Finds
pub mod Kept
pub mod Sheets
