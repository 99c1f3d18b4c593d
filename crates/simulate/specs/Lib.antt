pub mod Stepping
pub mod Walking
pub mod Verdicts
pub mod Theorems
pub mod inner
