pub mod Calls
pub mod Streaming
pub mod Demand3
pub mod Theorems
