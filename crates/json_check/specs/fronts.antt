pub mod Moves
pub mod Fronts
