pub use Rattle.seen_files.specs.Seen
pub use Rattle.seen_files.specs.Needs
pub use Rattle.seen_files.specs.Spends
pub use Rattle.seen_files.specs.declared.seen.SeenFiles
pub mod State
pub mod Reports
pub mod Fixes
pub mod Work
