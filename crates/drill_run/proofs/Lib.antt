pub mod Anyhow
pub mod Counts
pub mod Once
pub mod Far
pub mod Ends
