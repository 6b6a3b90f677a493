pub mod CountLemmas
pub mod ShiftLemmas
pub mod ClassLemmas
pub mod NumberLemmas
pub mod RowLemmas
pub mod SliceNodes
pub mod OrderLemmas
