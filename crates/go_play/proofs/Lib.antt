pub mod OverLemmas
pub mod PlaysLemmas
pub mod RecoverLemmas
pub mod TaskLemmas
pub mod EndLemmas
pub mod StepLemmas
pub mod TurnLemmas
pub mod RunLemmas
