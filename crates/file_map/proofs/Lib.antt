pub mod Shown
pub mod Counts
pub mod Putting
pub mod Syncing
pub mod Replacing
