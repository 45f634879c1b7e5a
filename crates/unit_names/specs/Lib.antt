pub mod Names
pub mod Places
pub mod Scopes
pub mod Seen
pub mod Words
