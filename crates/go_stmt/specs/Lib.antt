pub mod Start
pub mod Done
pub mod Checks
pub mod Made
