pub mod Places
pub mod Say
