pub mod FileMap
pub mod Seen
pub mod Faults
pub mod Sync
