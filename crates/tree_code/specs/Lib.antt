pub mod Code
pub mod Sums
pub mod Heads
pub mod Looks
pub mod Reads
