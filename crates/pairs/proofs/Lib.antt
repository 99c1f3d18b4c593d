pub mod Pairing
pub mod Leading
pub mod Striking
pub mod Rounds
pub mod Notes
pub mod Timing
pub mod Starts
