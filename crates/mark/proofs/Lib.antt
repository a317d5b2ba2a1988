pub mod Words
pub mod Letters
pub mod Top
pub mod Exactly
pub mod Standing
pub mod OneOutcome
pub mod Examples
