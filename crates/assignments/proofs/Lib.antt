pub mod Declarators
pub mod Ends
pub mod Kids
pub mod Loops
pub mod Postorder
pub mod QuietBelow
pub mod Targets
pub mod Trees
