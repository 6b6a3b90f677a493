mod SetsHasLemmas
mod LabelsSteps
mod PopLemmas
mod ToldLemmas
mod TargetLemmas
mod JoinLemmas
mod FormLemmas
pub mod WalkSteps
pub mod AnswerLemmas
pub mod ScopeLemmas
pub mod WalkLemmas
pub mod UsedLemmas
pub mod TypeLemmas
pub mod PartLemmas
mod NodeLemmas
pub mod Views
pub mod LastLemmas
mod CasesHasLemmas
