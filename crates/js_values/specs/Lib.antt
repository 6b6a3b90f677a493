pub mod Exprs
pub mod Kept
pub mod Logic
pub mod Numbers
pub mod Steps
pub mod Values
