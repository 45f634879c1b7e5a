pub mod Closing
pub mod Following
pub mod Grow
pub mod Sorted
pub mod Steps
pub mod Words
pub mod Works
