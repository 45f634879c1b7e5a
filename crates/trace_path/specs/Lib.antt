pub mod Along
pub mod Fresh
pub mod Queue
pub mod Trace
