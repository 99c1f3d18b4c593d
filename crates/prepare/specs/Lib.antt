pub mod Preparing
pub mod Theorems
pub mod inner
