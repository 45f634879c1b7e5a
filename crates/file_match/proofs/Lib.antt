pub mod Needed
pub mod Gathered
pub mod Places
pub mod Bits
pub mod Marked
