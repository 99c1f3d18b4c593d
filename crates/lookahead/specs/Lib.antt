pub mod Answers
pub mod Rivals
pub mod inner
