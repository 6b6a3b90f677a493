pub mod RangeLemmas
pub mod BitLemmas
pub mod Division
pub mod Laws
