pub mod Cut
pub mod Reading
pub mod ReadTo
pub mod Demand1
pub mod Demand3
