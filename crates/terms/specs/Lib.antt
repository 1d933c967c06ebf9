pub mod Codes
pub mod Terms
pub mod Request
pub mod Means
