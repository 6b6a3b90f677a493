pub mod LocalVarsSpecLemmas
pub mod LeftLemmas
mod NameLemmas
mod VarLemmas
mod GivenLemmas
mod ConstLemmas
mod StepLemmas
mod LocalConstsPlainLemmas
mod LocalConstsSpecLemmas
mod BareLemmas
mod TypeLemmas
mod DeclLemmas
pub mod ViewLemmas
pub mod FallsLemmas
pub mod LeafLemmas
pub mod SpareLemmas
pub mod StandLemmas
mod WholeLemmas
mod KeepLemmas
mod LoopLemmas
mod PartLemmas
mod SizeLemmas
mod SwitchLemmas
mod StmtLemmas
mod BodyPlainLemmas
mod ShapeLemmas
mod BodyLemmas
