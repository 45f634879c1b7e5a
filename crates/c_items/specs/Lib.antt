pub mod Settling
pub mod Table
pub mod reader
