pub mod Readers
pub mod Fields
pub mod Messages
pub mod Claims
