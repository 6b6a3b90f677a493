pub mod Bound
pub mod Seen
pub mod SigView
pub mod Before
pub mod State
pub mod Stood
pub mod Heads
pub mod HeadView
