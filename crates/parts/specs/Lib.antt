pub mod Recognised
pub mod Beginning
