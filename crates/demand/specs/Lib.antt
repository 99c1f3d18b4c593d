pub mod Demand
pub mod Rows
pub mod Sample
