pub mod Codes
pub mod Telling
