pub mod Wholes
pub mod Placing
pub mod Patterns
