pub mod Unread
pub mod Back
