pub mod Asking
pub mod Closing
pub mod Concerns
pub mod Filling
pub mod Gathering
pub mod Nodes
pub mod Raising
pub mod States
