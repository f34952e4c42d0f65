pub mod Placing
pub mod Ranking
pub mod Same
pub mod Finding
