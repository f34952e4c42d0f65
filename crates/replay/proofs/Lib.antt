pub mod Boards
pub mod Laws
pub mod Notes
pub mod Calls
pub mod Works
pub mod Quotes
pub mod Days
