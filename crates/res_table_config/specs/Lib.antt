pub mod Face
pub mod Small
pub mod Demand1
