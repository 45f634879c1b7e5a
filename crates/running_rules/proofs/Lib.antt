pub mod Members
pub mod Repeats
pub mod Deciding
pub mod Taking
pub mod Ids
