pub mod Numbers
pub mod FrameView
pub mod Pushes
pub mod Lists
