pub mod Around
pub mod Known
pub mod ListView
pub mod Statements
