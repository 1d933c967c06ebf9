pub mod Table
pub mod Record
pub mod Step
pub mod Inputs
