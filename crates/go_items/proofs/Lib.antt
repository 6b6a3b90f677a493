mod ListLemmas
mod ItemLemmas
mod CountLemmas
mod PlaceLemmas
mod ItemsParamLemmas
pub mod JoinLemmas
pub mod FormLemmas
mod NeedsSteps
mod NeedsParamLemmas
mod NumberLemmas
mod EdgeLemmas
mod CircleLemmas
mod ToldLemmas
mod BindsSteps
mod BindLemmas
pub mod TypeLemmas
mod StandLemmas
mod SettleLemmas
mod FirstLemmas
mod FunctionLemmas
mod LeastLemmas
