pub mod Held
pub mod Vars
