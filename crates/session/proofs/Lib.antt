pub mod Walks
pub mod Adding
pub mod Telling
pub mod Keeping
pub mod Reports
pub mod Fixes
pub mod Once
