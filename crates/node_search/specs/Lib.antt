pub mod States
pub mod Kids
pub mod Steady
