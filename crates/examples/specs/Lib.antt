pub mod Tells
pub mod Scenes
pub mod Examples
