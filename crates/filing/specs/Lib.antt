pub mod Filed
pub mod Writing
pub mod Sample
pub mod Theorems
pub mod inner
