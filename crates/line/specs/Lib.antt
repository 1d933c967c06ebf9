pub mod Entry
pub mod Steps
pub mod Start
pub mod Ticks
