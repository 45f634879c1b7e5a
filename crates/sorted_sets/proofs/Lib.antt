pub mod Lasts
pub mod Distinct
pub mod Searches
pub mod Settling
