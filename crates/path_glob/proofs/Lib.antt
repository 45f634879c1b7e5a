pub mod Fitting
pub mod Cuts
pub mod Signs
pub mod Some
