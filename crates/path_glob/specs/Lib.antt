pub mod Segments
pub mod Fitting
pub mod Fronts
pub mod Glob
pub mod Path
