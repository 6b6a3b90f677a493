pub mod Names
pub mod Tree
pub mod Stands
pub mod StmtTree
pub mod Says
pub mod Begins
