pub mod Copying
pub mod Appending
pub mod Filling
