pub mod Claims
pub mod Forms
pub mod Slots
pub mod Rows
pub mod Names
pub mod Made
