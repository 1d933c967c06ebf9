pub mod Sound
pub mod Ticking
pub mod Time
