pub mod Effects
pub mod Agree
pub mod Quiet
pub mod Over
pub mod Claims
