pub mod Answers
pub mod OneOutcome
