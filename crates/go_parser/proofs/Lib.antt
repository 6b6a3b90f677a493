pub mod Keeps
pub mod FeedLemmas
pub mod TurnLemmas
pub mod FileLemmas
pub mod ParseLemmas
