pub mod OneOutcome
pub mod OneToOne
pub mod Passed
pub mod Exactly
