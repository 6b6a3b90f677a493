pub mod Control
pub mod Fresh
pub mod Lines
pub mod Whole
