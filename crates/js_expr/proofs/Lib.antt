pub mod Maps
pub mod Loops
