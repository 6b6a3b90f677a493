pub mod BlockLaws
pub mod Later
pub mod ListLaws
pub mod State
pub mod StepLaws
pub mod Tells
