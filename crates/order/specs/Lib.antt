pub mod Order
pub mod Packed
pub mod Total
