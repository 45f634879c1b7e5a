pub mod Steps
pub mod Readings
pub mod Distinct
pub mod Sound
pub mod Complete
pub mod Whole
