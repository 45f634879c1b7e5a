pub mod Wholes
pub mod Patterns
pub mod Modules
pub mod Seconds
pub mod Braces
