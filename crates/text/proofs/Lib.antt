pub mod Answers
pub mod Cost
pub mod Long
pub mod Ranges
pub mod OneOutcome
pub mod Same
pub mod Exactly
pub mod Holding
