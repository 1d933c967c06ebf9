pub mod Clock
pub mod Claims
