-- What only inner functions promise each other.
pub mod Rows
pub mod Sets
