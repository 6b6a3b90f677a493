pub mod Follows
pub mod Forms
pub mod Lists
pub mod Marked
pub mod Names
pub mod Parts
pub mod Quick
