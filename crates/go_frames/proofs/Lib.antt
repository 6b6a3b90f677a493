pub mod OperatorLemmas
pub mod NumberLemmas
pub mod StackLemmas
pub mod FramesListLemmas
pub mod BeginsListLemmas
