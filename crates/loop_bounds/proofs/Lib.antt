pub mod ReadingLemmas
pub mod ReplyLemmas
