pub mod Settings
pub mod FaultText
pub mod Outcome
pub mod Told
pub mod Headline
pub mod Stored
pub mod Refusals
pub mod Commands
