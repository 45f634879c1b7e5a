pub mod Paths
pub mod Fitting
pub mod Followed
pub mod Sought
pub mod Once
pub mod SpanOrder
pub mod Standings
pub mod Firsts
