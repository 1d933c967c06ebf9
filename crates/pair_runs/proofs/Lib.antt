pub mod Allowed
pub mod Refuted
pub mod Runs
pub mod Turn
