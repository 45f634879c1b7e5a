pub mod Streaming
pub mod Inputs
pub mod Matches
pub mod Checks
pub mod Requests
pub mod Leaving
pub mod Settings
