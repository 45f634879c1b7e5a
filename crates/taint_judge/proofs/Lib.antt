pub mod Each
pub mod Gathering
pub mod Hits
pub mod Once
