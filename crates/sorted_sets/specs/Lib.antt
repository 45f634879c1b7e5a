pub mod Sizes
pub mod Ends
pub mod Orders
