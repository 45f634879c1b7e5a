pub mod Firsts
pub mod Fixed
pub mod Functions
pub mod Numbering
pub mod Once
