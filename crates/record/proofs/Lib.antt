pub mod Among
pub mod Bytes
pub mod Shapes
pub mod Ends
pub mod OneOutcome
pub mod Twelve
