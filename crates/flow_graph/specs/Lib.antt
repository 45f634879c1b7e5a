pub mod Keys
pub mod Outline
pub mod Ranges
pub mod Units
