pub mod Weight
pub mod Limited
pub mod Seen
pub mod Flows
pub mod Does
pub mod Faults
pub mod Runs
