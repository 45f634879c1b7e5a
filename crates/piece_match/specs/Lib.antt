pub mod Merging
pub mod Moved
pub mod Names
pub mod Pieces
pub mod Ready
pub mod Union
