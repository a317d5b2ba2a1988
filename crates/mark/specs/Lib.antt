pub mod Word
pub mod Demand1
pub mod Claims
