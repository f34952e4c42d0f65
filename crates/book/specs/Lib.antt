pub mod Outcomes
pub mod Houses
pub mod Expiry
pub mod Moves
pub mod Works
