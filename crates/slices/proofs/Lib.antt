pub mod Parts
pub mod Appending
pub mod Each
pub mod Putting
