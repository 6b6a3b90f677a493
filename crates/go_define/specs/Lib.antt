pub mod FreshView
pub mod DefineTold
pub mod Defining
pub mod Updating
pub mod SimpleTold
pub mod AroundView
pub mod CaseView
