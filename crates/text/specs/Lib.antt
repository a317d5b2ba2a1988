pub mod Text
pub mod Counted
pub mod Replacements
pub mod Demand1
