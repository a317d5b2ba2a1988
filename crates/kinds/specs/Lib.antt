pub mod Input
pub mod Mode
pub mod Pick
pub mod Screen
