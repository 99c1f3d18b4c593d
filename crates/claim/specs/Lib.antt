pub mod Checking
pub mod inner
