pub mod Replies
pub mod Deciding
pub mod inner
