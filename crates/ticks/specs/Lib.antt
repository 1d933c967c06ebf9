pub mod Turn
pub mod Tick
pub mod Clerk
pub mod Line
