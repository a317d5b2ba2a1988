pub mod OrderAt
pub mod Apart
