pub mod Reading
pub mod Replies
