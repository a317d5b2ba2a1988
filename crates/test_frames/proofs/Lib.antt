pub mod Lines
pub mod OneOutcome
