pub mod Rest
pub mod Rules
pub mod Stands
pub mod Kept
