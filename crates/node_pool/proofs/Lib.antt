pub mod Induction
pub mod Placing
pub mod SpotKids
pub mod Siblings
