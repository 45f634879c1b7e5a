pub mod Carries
pub mod Censuses
pub mod Hulls
pub mod Names
pub mod Numbers
pub mod PlacesOf
pub mod Sinks
pub mod Taints
