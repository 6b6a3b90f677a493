pub mod Combine
pub mod TakenStays
pub mod TalkTakes
pub mod TasksTake
pub mod RunsTake
