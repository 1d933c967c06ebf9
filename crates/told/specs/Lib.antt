pub mod Face
pub mod Told
pub mod Ticking
