pub mod Lives
pub mod Saying
pub mod Entering
pub mod Answering
pub mod Largest
pub mod Theorems
pub mod Computed
