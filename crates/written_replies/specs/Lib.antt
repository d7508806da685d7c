pub mod Endings
pub mod Replies
pub mod Statuses
