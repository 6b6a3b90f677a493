pub mod GivenGivenLemmas
pub mod OrderLemmas
pub mod PassedLemmas
pub mod ExprsLemmas
pub mod ConversionsConstLemmas
pub mod ConversionLemmas
pub mod CallsGivenLemmas
pub mod PrintLemmas
pub mod CallLemmas
pub mod CallsConstLemmas
pub mod CountLemmas
mod CalleeLemmas
mod FormLemmas
mod JoinLemmas
mod GivesLemmas
