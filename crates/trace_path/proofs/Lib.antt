pub mod Counts
pub mod Places
pub mod Members
pub mod Lengthen
pub mod Least
pub mod Follow
