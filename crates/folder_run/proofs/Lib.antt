pub mod Taken
pub mod Wrote
pub mod Fixes
pub mod Scans
pub mod Once
