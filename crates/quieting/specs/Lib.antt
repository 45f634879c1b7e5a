pub mod Words
pub mod Ids
pub mod Comments
pub mod Quieting
pub mod Lines
