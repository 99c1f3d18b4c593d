pub mod Joining
pub mod Turning
pub mod Removing
pub mod Searching
