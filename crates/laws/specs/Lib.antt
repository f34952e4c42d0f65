pub mod Strings
pub mod Equal
pub mod Reached
pub mod Refusals
pub mod Happens
pub mod Dealings
pub mod Conserve
pub mod Priority
