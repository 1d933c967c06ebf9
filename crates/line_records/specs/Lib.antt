pub mod Layout
pub mod Codes
pub mod Records
pub mod Lines
pub mod Meaning
pub mod Change
pub mod Deadlines
