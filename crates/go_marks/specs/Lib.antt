pub mod Marks
pub mod MarksRows
