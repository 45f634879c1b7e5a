pub mod Refused
pub mod Decided
pub mod Deciding
pub mod Kept
pub mod Asking
