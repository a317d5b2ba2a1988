pub mod Keys
pub mod Holding
pub mod Finding
pub mod OneMore
pub mod Exactly
pub mod OneOutcome
pub mod Examples
