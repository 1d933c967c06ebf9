pub mod Decide
pub mod Plan
