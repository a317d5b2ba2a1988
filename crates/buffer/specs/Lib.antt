pub mod Ascii
pub mod Counted
pub mod Decimal
pub mod Demand1
pub mod Put
pub mod Written
