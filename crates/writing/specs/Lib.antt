pub mod Writing
pub mod Demand1
pub mod Demand2
