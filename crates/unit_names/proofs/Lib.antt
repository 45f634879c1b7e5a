pub mod Loops
pub mod ScopeList
pub mod WordPlaces
