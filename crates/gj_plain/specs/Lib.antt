pub mod Plain
pub mod MainView
