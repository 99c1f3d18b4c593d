-- What only inner functions promise each other.
pub mod Entering
pub mod Steps
