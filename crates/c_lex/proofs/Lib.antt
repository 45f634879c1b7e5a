pub mod Certificate
pub mod Placing
pub mod Noting
