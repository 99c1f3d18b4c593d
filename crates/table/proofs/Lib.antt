pub mod Listed
pub mod Fitness
pub mod Form
pub mod Heads
pub mod Theorems
