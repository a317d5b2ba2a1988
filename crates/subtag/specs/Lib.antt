pub mod Copies
pub mod Replacements
pub mod Steps
pub mod Subtag
pub mod Utf8
