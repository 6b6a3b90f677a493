pub mod Outcomes
pub mod Over
pub mod Plays
pub mod Recovers
pub mod Ends
pub mod Turns
pub mod Comes
