pub mod Laws
pub mod Finding
pub mod Levels
pub mod Shapes
pub mod Lists
pub mod Entries
pub mod Following
pub mod Outcomes
