pub mod Begins
pub mod Facts
pub mod Plans
pub mod RowFacts
pub mod SinkGoals
pub mod Spreading
