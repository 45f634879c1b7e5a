pub mod Rules
pub mod Automaton
pub mod View
pub mod Conditions
pub mod Reading
pub mod Mark
pub mod WordList
