pub mod Folds
pub mod Distinct
pub mod TextPlaces
