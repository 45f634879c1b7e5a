pub mod Searches
pub mod Refusals
pub mod Asking
