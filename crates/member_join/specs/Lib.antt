pub mod Ranges
pub mod Choices
pub mod Agreements
pub mod Joins
pub mod Orders
pub mod Limits
pub mod Operands
pub mod Blocks
