pub mod Adds
pub mod Bits
pub mod Carried
pub mod Fitting
pub mod Reached
pub mod Spread
pub mod Worklist
