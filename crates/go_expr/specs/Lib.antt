pub mod Stacked
pub mod Ready
pub mod Walked
pub mod Typed
pub mod Raw
