pub mod Signal
pub mod Reading
pub mod Listed
