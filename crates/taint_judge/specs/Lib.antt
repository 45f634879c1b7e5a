pub mod Lists
pub mod Carries
pub mod Sets
pub mod Gathered
pub mod Follows
pub mod Faults
pub mod Placed
pub mod Flows
