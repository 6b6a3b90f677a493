pub mod Exact
pub mod Around
pub mod More
pub mod ScopeLemmas
pub mod RightWords
pub mod RightRows
pub mod Fit
