pub mod Promises
pub mod Theorems
pub mod Parties
