pub mod Firsts
pub mod Pairs
pub mod Those
pub mod Lessening
pub mod Dropping
pub mod Pigeonhole
pub mod Placing
