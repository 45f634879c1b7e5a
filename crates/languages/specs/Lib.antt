pub mod Trees
pub mod Comments
