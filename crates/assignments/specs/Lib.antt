pub mod Assignments
pub mod Declarators
pub mod Seen
pub mod Targets
pub mod Trees
