pub mod ValuesSeen
pub mod Asked
pub mod Laid
pub mod LayoutsSeen
pub mod OperatorsSeen
