pub mod Page
pub mod Table
