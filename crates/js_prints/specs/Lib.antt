pub mod Faithful
pub mod Prints
pub mod Emitted
pub mod Lines
