pub mod Escapes
pub mod Bounds
pub mod Answers
pub mod Exactly
pub mod OneOutcome
pub mod Examples
pub mod Newlines
