pub mod Constants
pub mod Idle
pub mod Large
pub mod Settled
pub mod Sights
pub mod Units
pub mod Views
