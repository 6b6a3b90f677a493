pub mod Representability
pub mod Bits
pub mod Operation
pub mod Answer
