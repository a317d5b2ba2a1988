pub mod KeyOrder
pub mod Examples
