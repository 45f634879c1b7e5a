pub mod Having
pub mod Names
