pub mod Longest
pub mod StatedZero
pub mod Twelve
