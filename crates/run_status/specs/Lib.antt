pub mod Status
pub mod Ways
