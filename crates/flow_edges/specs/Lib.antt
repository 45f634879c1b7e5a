pub mod Flow
pub mod Grows
pub mod Tries
