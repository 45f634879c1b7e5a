pub mod RuleMap
pub mod Kept
