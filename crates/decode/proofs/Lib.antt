pub mod SameRegister
pub mod Layouts
pub mod TwosComplement
pub mod Formats
pub mod Codes
pub mod Whole
pub mod Only
