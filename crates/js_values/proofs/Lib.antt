pub mod Arms
pub mod Forms
