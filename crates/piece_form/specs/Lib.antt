pub mod Code
pub mod Cut
pub mod Identity
pub mod Keys
