pub mod Tree
pub mod View
pub mod Spelling
pub mod Token
pub mod Marks
