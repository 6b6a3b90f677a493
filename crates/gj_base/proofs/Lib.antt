pub mod CountsLemmas
pub mod ChoicesLemmas
pub mod PlanLemmas
pub mod MemorySinkLemmas
pub mod FolderLemmas
pub mod TreeLemmas
