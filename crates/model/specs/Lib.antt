pub mod World
pub mod Tick
pub mod Whole
pub mod Promise
pub mod Samples
