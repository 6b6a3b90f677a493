mod ConditionLemmas
mod TakenLemmas
mod ToldLemmas
mod PassedLemmas
mod BranchLemmas
mod TagLemmas
mod EmitLemmas
mod NameLemmas
pub mod OutcomeLemmas
pub mod PlaceLemmas
pub mod RawLemmas
pub mod WalkLemmas
pub mod BareLemmas
pub mod LeftLemmas
mod UseLemmas
mod AssignLemmas
mod SeveralLemmas
pub mod SideLemmas
mod TopLemmas
pub mod GrowLemmas
mod ConstantLemmas
