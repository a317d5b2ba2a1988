pub mod Lines
pub mod Listing
pub mod Demand1
pub mod TwoAges
