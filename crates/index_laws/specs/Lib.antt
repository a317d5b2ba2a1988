pub mod Claims
pub mod Demand1
