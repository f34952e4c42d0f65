mod Bits
pub mod Sifting
