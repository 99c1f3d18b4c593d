pub mod Rooms
pub mod Evidence
pub mod Answering
pub mod Theorems
pub mod Parties
