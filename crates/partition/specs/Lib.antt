pub mod Block
pub mod Stretch
pub mod Steps
pub mod Shown
