pub mod Mentions
pub mod Boxed
pub mod BoxedRows
