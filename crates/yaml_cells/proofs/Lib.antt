pub mod Cells
pub mod Utf8
pub mod Lasts
pub mod Rows
pub mod Signs
