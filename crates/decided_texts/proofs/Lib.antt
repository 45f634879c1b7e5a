pub mod Texts
pub mod Keeping
pub mod Growing
pub mod Reading
pub mod Later
pub mod Asking
