pub mod Layout
pub mod Codes
pub mod Records
pub mod Meaning
pub mod Deadlines
