pub mod Head
pub mod Answers
pub mod Exactly
pub mod HeadExactly
pub mod Behind
pub mod OneOutcome
pub mod Examples
