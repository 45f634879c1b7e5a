pub mod Patterns
pub mod Words
pub mod Ready
pub mod Trees
