pub mod Keys
pub mod Building
pub mod Builds
pub mod Value
