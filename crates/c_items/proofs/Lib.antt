pub mod Passes
pub mod Steps
pub mod Rounds
pub mod Nested
pub mod Curlies
pub mod Alike
pub mod Pieces
