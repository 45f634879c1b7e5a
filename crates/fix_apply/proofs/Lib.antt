pub mod Applications
pub mod Places
pub mod Takings
