pub mod Bytes
pub mod Held
