pub mod View
pub mod Opened
