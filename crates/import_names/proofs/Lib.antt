pub mod Cuts
pub mod Loops
pub mod Roots
pub mod Targets
pub mod Ordering
pub mod Replacing
pub mod Renumbering
pub mod Placing
pub mod Itself
mod Telling
