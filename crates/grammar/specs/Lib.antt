pub mod Rule
pub mod Sets
pub mod Reader
pub mod Tests
pub mod Check
pub mod Renamed
