pub mod Claims
pub mod Demand1
pub mod Named
pub mod Reading
