pub mod Amongs
