pub mod Sharing
pub mod Lifetimes
pub mod inner
