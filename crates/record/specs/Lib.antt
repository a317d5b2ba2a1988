pub mod Accessors
pub mod Ages
pub mod Blank
pub mod Shape
pub mod Table
