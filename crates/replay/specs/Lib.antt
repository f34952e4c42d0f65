pub mod Days
pub mod Records
pub mod Desks
pub mod Laws
pub mod Sessions
