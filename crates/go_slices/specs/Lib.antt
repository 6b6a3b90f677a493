pub mod SlicesFound
pub mod MapsFound
pub mod Seen
pub mod CompositesFound
