pub mod Rising
pub mod Steps
