pub mod Columns
pub mod Rows
pub mod Counting
pub mod Answering
pub mod Theorems
