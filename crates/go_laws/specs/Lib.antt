pub mod Selecting
pub mod Numbers
pub mod InOrder
