pub mod World
pub mod Demand3
pub mod Ticks
