pub mod Letters
pub mod Standing
pub mod Judging
pub mod Unresolved
