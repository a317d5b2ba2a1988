pub mod Gives
pub mod Beginning
