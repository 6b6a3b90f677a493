pub mod ValueSeen
pub mod HeapSeen
