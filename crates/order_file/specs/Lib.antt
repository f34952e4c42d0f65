pub mod Faults
pub mod Instructions
pub mod Fields
pub mod Lines
pub mod Files
