pub mod Rows
pub mod Turned
pub mod inner
