pub mod ToldLemmas
pub mod NameLemmas
pub mod GatherLemmas
pub mod LeastLemmas
pub mod ReadingLemmas
pub mod FaultLemmas
pub mod JudgeLemmas
