pub mod Floats
pub mod Sent
