pub mod Form
pub mod Takes
pub mod Adds
