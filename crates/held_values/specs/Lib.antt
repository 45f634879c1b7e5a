pub mod Closing
pub mod Holding
pub mod Merged
pub mod Slots
pub mod Told
