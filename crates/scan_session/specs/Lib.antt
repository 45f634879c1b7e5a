pub use Rattle.file_results.specs.Sets
pub use Rattle.file_results.specs.Reports
pub use Rattle.file_results.specs.Quieted
pub use Rattle.file_results.specs.Shown
pub mod Fresh
pub mod Others
pub mod Scans
