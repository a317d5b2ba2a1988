pub mod Bits
pub mod Sheets
pub mod OneOutcome
pub mod Codes
pub mod Former
