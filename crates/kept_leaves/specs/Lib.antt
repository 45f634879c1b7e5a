pub mod Pairs
pub mod Kept
pub mod Growth
pub mod Ready
pub mod Opened
pub mod Asking
pub mod Found
