pub mod Codes
pub mod Lent
pub mod Records
pub mod Unheard
