pub mod Leaving
pub mod Tables
pub mod Ending
pub mod Theorems
pub mod Following
