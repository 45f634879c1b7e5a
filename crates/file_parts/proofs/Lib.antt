pub mod ByPieces
pub mod Once
pub mod Resolving
pub mod Splits
pub mod Through
