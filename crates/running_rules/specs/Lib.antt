pub mod Notes
pub mod NoteOrder
pub mod Refused
pub mod Running
pub mod Taking
