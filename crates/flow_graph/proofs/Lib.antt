pub mod Orders
pub mod Outlines
pub mod Walks
