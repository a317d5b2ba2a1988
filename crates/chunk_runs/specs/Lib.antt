pub mod Chunks
pub mod Stops
pub mod Demand1
pub mod Demand3
pub mod Chunked
