pub mod Preorder
pub mod Pool
pub mod Entries
pub mod Runs
pub mod Spots
