pub mod Cycle
pub mod Order
pub mod Joined
pub mod Search
