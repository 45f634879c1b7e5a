pub mod Gaps
pub mod Cuts
pub mod Keys
