pub mod Blocks
pub mod Declared
pub mod Ended
pub mod Last
pub mod Returns
