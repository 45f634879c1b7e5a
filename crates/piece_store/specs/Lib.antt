pub mod Bits
pub mod Slots
pub mod Views
pub mod Kept
pub mod Listed
