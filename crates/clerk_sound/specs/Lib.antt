pub mod Sound
pub mod Ticking
pub mod Notes
pub mod Time
