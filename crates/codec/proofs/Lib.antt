pub mod Stand
pub mod Outcomes
pub mod Laws
pub mod Steps
pub mod Sizes
