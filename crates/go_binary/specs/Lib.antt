pub mod MatchView
pub mod CountView
pub mod ClassView
pub mod Fixed
pub mod IndexView
pub mod Order
