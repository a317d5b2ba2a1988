pub mod Chunk
pub mod Demand1
pub mod Behind
