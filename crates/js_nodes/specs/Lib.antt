pub mod Views
pub mod Handing
