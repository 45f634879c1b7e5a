pub use Rattle.file_results.proofs.Orders
pub mod Scans
pub mod Laws
pub mod Later
pub mod Others
pub mod FixOrder
