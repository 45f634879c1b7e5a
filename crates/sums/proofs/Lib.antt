pub mod Views
pub mod Passes
pub mod Depths
pub mod Steps
pub mod Casts
pub mod ClosedRuns
