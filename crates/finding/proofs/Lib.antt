pub mod Seeking
pub mod Telling
pub mod ReadSound
pub mod Exactly
pub mod OneOutcome
pub mod Examples
