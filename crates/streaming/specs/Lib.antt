pub mod Calls
pub mod PlainWalk
pub mod Demand3
pub mod Streaming
pub mod Theorems
