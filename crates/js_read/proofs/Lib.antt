pub mod Back
pub mod Maps
pub mod StmtLoops
pub mod Whole
