pub mod Rounds
pub mod Noting
