pub mod Lines
pub mod Asked
pub mod Commands
pub mod Heads
pub mod Bodies
pub mod Streams
pub mod Fronts
pub mod Feeds
