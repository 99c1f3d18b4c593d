pub mod Rivalry
pub mod Trails
pub mod Claims
