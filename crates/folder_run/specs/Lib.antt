pub mod Taking
pub mod Causes
pub mod Ends
pub mod Costs
pub mod Asking
pub mod Written
