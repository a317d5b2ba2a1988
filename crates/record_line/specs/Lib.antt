pub mod RecordLine
pub mod LineIn
pub mod Ended
pub mod Demand1
