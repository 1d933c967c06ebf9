pub mod Face
pub mod Clerk
pub mod Line
pub mod Shown
pub mod Messages
pub mod Claims
