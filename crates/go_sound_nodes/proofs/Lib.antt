pub mod NodeLemmas
pub mod RoundLemmas
pub mod TargetLemmas
