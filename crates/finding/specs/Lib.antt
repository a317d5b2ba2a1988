pub mod Finding
pub mod Demand1
