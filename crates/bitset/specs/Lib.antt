pub mod Sets
pub mod Numbers
pub mod Members
