pub mod Shown
pub mod Growth
pub mod Nodes
pub mod Held
pub mod Only
pub mod More
