pub mod Checks
pub mod Outcomes
pub mod Named
pub mod Groups
