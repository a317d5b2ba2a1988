pub mod Counted
pub mod Demand1
pub mod Numbers
pub mod Tells
