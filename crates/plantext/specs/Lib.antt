pub mod Named
pub mod Numerals
