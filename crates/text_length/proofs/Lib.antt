pub mod Total
pub mod Worded
