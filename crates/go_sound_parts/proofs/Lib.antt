pub mod FieldLemmas
pub mod MeasureLemmas
pub mod RangeLemmas
pub mod RowLemmas
pub mod SelfTypes
pub mod SpecLemmas
