pub mod Faults
pub mod Streams
pub mod Files
pub mod Trees
pub mod Memory
