pub mod Changes
pub mod Elsewhere
pub mod Looking
pub mod Parts
pub mod Records
pub mod Sets
pub mod Unheard
pub mod Written
