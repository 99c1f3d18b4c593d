pub mod Feeding
pub mod Waiting
pub mod Theorems
pub mod Rows
pub mod Sample
