pub mod Table
pub mod Record
pub mod Line
pub mod Step
pub mod Inputs
pub mod Search
