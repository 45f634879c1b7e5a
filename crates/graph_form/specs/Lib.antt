pub mod Edges
pub mod Sets
