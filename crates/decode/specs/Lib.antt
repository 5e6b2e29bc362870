pub mod Fields
pub mod Decoded
pub mod Encodes
