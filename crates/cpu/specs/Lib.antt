pub mod Act
pub mod Core
pub mod Meaning
pub mod Effects
pub mod Calls
pub mod Rv32i
pub mod Held
