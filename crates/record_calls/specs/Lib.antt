pub mod Promises
pub mod Theorems
