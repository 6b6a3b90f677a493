pub mod Places
pub mod ValueObjects
pub mod DictionaryLemmas
pub mod HeapObjects
