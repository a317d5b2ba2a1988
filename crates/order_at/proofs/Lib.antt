pub mod Alike
pub mod Limits
pub mod Decides
pub mod OneOutcome
