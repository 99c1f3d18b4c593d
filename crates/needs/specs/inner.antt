pub mod Longest
pub mod Entering
