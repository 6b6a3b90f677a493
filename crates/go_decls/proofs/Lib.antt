mod ParamsSteps
pub mod ParamsNameLemmas
mod BoundLemmas
mod SignaturesSteps
mod ParamLemmas
mod KnownLemmas
mod SigLemmas
mod EntryLemmas
mod KnownSteps
mod NumberLemmas
mod OutcomeLemmas
mod TypeLemmas
mod KnownConstantLemmas
mod PassLemmas
mod DoneLemmas
mod ToldSteps
mod ToldNameLemmas
mod DeclsSteps
mod FunctionLemmas
mod DeclsConstantLemmas
mod DeclLemmas
mod HeadsSteps
pub mod FunctionLaws
pub mod KeepLemmas
mod HeadLemmas
mod OwnLemmas
mod EndLemmas
pub mod BodyLemmas
