pub mod Words
pub mod Settling
pub mod Table
pub mod Build
pub mod Runs
pub mod reader
pub mod Standard
