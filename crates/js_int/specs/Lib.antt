pub mod Kinds
pub mod Small
pub mod Wide
pub mod Convert
pub mod Operation
