pub mod Feeding
pub mod Finishing
pub mod Agreeing
pub mod Beginning
