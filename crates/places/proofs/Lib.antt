pub mod Identifiers
pub mod Staying
pub mod Counting
pub mod Ordering
pub mod Holding
pub mod Moving
pub mod Passing
pub mod Noting
