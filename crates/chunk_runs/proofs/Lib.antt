pub mod Chunks
pub mod Exactly
pub mod Demand3
pub mod Pieces
pub mod Chunked
pub mod OneOutcome
pub mod Examples
