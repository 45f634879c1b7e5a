pub mod Dots
pub mod Patterns
