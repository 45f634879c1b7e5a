pub mod Order
pub mod Applied
pub mod Choices
