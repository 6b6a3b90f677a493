pub mod InitOrder
pub mod OrderRows
