pub mod Operators
pub mod Signatures
pub mod Declarations
pub mod Statements
pub mod Files
pub mod MainFound
pub mod Whole
