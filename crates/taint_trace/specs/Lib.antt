pub mod Trace
pub mod Findings
pub mod Standings
