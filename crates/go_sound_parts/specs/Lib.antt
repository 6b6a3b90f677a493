pub mod Given
pub mod Fields
pub mod Index
pub mod Lists
pub mod Measures
pub mod Methods
