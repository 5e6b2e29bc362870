pub mod Codec
pub mod Lawful
pub mod Fields
