pub mod Ranked
pub mod Places
pub mod Held
pub mod Bisect
pub mod Sorted
pub mod Counts
pub mod Sums
pub mod Alike
