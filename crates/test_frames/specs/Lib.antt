pub mod Hex
pub mod Numbers
