pub mod Figures
pub mod Choices
pub mod Parts
pub mod Agree
