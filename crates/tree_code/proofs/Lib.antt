pub mod Parts
pub mod Numbers
pub mod Telling
pub mod Reading
