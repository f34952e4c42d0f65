pub mod Verdicts
pub mod Calls
pub mod Hands
pub mod Runs
