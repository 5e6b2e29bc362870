pub mod Bursts
pub mod Kept
pub mod Lays
pub mod Owns
pub mod Sets
pub mod Steps
pub mod Ticks
pub mod Worlds
