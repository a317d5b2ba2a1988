pub mod Answers
pub mod Exactly
pub mod OneOutcome
pub mod Packing
pub mod Small
