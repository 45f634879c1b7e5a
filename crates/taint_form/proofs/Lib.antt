pub mod Folds
pub mod Maps
pub mod Spans
pub mod Tables
pub mod Bases
