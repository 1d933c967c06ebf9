pub mod Identifiers
pub mod Messages
pub mod Given
pub mod Shown
