pub mod Simple
pub mod Seen
pub mod PartDoes
pub mod Cells
