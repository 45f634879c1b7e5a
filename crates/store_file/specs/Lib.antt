pub mod StoreText
pub mod Found
pub mod Pieces
pub mod Written
pub mod Shelf
