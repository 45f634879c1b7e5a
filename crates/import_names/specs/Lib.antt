pub mod Claims
pub mod Resolved
pub mod Pieces
pub mod Ordered
pub mod Itself
pub mod Telling
