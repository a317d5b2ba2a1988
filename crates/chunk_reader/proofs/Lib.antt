pub mod OneOutcome
pub mod Stops
