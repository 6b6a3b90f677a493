pub mod EntriesSeen
pub mod Told
pub mod Leaves
pub mod Enters
pub mod Found
pub mod DoingSeen
