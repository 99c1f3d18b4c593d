pub mod Widths
pub mod Listing
