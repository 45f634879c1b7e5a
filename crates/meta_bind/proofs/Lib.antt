pub mod Lookups
pub mod Places
pub mod Names
pub mod BindingOrder
pub mod Chains
pub mod Joins
pub mod Fillings
