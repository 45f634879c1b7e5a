pub use Rattle.scan_session.proofs.Later as ScanLater
pub mod Later
pub mod Once
