pub mod Letters
pub mod Ways
