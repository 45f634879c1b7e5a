pub mod Keywords
pub mod Classes
pub mod Tokens
pub mod Lexing
pub mod Places
pub mod Comments
