pub mod Backwards
pub mod Counting
pub mod Digits
pub mod Exactly
pub mod OneOutcome
pub mod Putting
pub mod Writing
