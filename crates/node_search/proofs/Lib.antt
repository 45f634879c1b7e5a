pub mod Calls
pub mod SteadyLaws
pub mod Counted
pub mod Lines
pub mod Going
pub mod Steps
pub mod DotsInDots
pub mod Found
