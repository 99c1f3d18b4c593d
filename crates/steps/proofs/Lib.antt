pub mod Stepping
pub mod Running
pub mod Sample
pub mod Theorems
