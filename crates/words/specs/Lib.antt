pub mod Input
pub mod Layout
pub mod Mode
pub mod Screen
pub mod Words
