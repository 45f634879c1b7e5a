pub mod Tree
pub mod Token
pub mod Table
pub mod Build
pub mod Sets
pub mod Reading
