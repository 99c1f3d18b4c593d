pub mod Printing
pub mod Theorems
