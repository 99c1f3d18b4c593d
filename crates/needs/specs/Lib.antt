pub mod Needs
pub mod Theorems
pub mod inner
