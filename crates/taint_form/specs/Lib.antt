pub mod Bases
pub mod Expressions
pub mod Origins
pub mod Tables
