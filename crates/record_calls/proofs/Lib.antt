pub mod Endings
pub mod Answering
pub mod Theorems
