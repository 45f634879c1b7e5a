pub mod Reporting
pub mod ScanState
pub mod Sessions
