pub mod Page
pub mod Paging
pub mod Theorems
pub mod inner
