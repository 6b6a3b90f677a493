pub mod ToldLemmas
pub mod NameLemmas
pub mod FileLemmas
pub mod PlaceLemmas
pub mod TopLemmas
pub mod BuildLemmas
pub mod CommandLemmas
