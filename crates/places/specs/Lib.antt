pub mod Places
pub mod Claims
pub mod Notes
