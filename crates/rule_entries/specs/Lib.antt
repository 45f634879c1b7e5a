pub mod Readings
pub mod Finds
pub mod Formulas
pub mod Bodies
pub mod Rules
