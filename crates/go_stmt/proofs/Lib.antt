pub mod DoneLemmas
mod FunctionLemmas
mod LoopLemmas
mod CheckLemmas
mod MadeLemmas
