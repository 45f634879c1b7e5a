pub mod Drilling
pub mod Costs
pub mod Asking
pub mod Commands
