pub mod Seen
pub mod Parts
pub mod Leaves
pub mod Held
